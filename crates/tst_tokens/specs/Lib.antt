pub mod Layouts
pub mod View
pub mod Tokens
pub mod Digests
pub mod Sound
pub mod Whole
pub mod Laws
