pub mod Sound
pub mod Times
pub mod Orders
pub mod Faults
pub mod Laws
