pub mod Sizes
pub mod Content
pub mod Placed
pub mod Live
