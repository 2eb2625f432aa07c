pub mod Signers
pub mod Complete
pub mod Laws
