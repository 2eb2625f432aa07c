pub mod Sets
pub mod Scopes
pub mod Answers
