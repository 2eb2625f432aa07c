pub mod Shown
pub mod RefsOf
pub mod Found
pub mod Answers
