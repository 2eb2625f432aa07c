pub mod Built
pub mod Putting
