pub mod Each
pub mod Numbered
pub mod SeenTexts
pub mod Found
