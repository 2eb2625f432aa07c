pub mod Kept
pub mod EscapedTexts
pub mod MarkupTexts
pub mod PlainFronts
