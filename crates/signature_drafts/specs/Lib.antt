pub mod Drafts
pub mod Uris
pub mod Properties
pub mod Standing
pub mod Parts
pub mod Digests
