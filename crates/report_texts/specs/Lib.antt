pub mod Facts
pub mod Words
pub mod Texts
pub mod Shown
