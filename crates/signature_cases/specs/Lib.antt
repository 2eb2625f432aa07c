pub mod Words
pub mod Handed
pub mod References
pub mod Signer
pub mod Stamps
pub mod Built
