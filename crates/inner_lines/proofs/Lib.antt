pub mod NoneLeft
pub mod LineEach
pub mod Ordered
pub mod FormatLists
