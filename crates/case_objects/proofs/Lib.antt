pub mod Added
pub mod Walked
