pub mod Places
pub mod Parts
pub mod ListsLeft
pub mod Slots
pub mod Kinds
pub mod StampsLeft
pub mod QualifyingLeft
