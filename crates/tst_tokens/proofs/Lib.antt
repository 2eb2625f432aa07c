pub mod DigestKinds
pub mod Apart
pub mod Chosen
pub mod Attributes
pub mod Parts
