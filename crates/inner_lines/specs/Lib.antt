pub mod LineParts
pub mod DataObjects
