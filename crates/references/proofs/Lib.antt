pub mod Firsts
pub mod Judging
pub mod Building
pub mod Sought
pub mod Anyone
pub mod Told
pub mod Numbered
pub mod Covers
