pub mod EmptyElement
mod Examples
