pub mod Growing
pub mod Renewing
pub mod OnBytes
pub mod Files
