pub mod Words
pub mod Files
pub mod Steps
pub mod HeldTexts
pub mod Meanings
