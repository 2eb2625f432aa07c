pub mod InScope
pub mod Targets
