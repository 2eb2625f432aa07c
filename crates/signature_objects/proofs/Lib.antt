pub mod Whole
pub mod Bytes
pub mod Standing
pub mod Counted
pub mod Gathered
pub mod Numbered
