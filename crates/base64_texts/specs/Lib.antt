pub mod Symbols
pub mod Stages
pub mod Spelling
pub mod Readings
pub mod Scans
pub mod Answers
pub mod Blocks
