pub mod Items
pub mod Hosts
pub mod Contents
pub mod Kept
pub mod Materials
