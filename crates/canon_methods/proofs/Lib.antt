pub mod Texts
pub mod There
pub mod ListWords
pub mod Named
