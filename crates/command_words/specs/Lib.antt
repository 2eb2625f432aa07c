pub mod Words
pub mod Wanting
pub mod Preparing
pub mod Attaching
pub mod Validating
pub mod Asked
pub mod Files
