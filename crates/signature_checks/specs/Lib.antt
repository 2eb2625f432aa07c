pub mod Codes
pub mod Opening
pub mod Keys
pub mod Validity
