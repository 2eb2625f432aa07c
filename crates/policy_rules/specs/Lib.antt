pub mod Rules
pub mod Faults
pub mod Fields
pub mod Text
pub mod Whole
pub mod Seen
pub mod View
