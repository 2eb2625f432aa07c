pub mod Scoped
pub mod Around
pub mod Texts
pub mod Entries
pub mod Own
pub mod Givers
