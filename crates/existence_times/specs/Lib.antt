pub mod Shown
pub mod Kept
pub mod Judged
pub mod Orders
