pub mod Octets
pub mod Chains
pub mod Paths
pub mod Parts
