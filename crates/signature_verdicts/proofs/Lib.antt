pub mod OnDigests
pub mod OnTokens
pub mod Built
