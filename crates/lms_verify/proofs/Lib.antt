pub mod Texts
pub mod Chains
pub mod Paths
pub mod KeyFacts
pub mod LevelFacts
