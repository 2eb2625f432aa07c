pub mod Accepted
pub mod Files
pub mod Covering
