pub mod Named
pub mod Adding
pub mod AnyOrder
pub mod Spread
pub mod FromNone
