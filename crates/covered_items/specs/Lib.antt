pub mod Whole
pub mod Entries
