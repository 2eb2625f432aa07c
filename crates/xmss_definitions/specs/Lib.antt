pub mod Octets
pub mod Address
pub mod Wots
pub mod Nodes
pub mod Keys
