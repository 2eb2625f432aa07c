pub mod Sightings
pub mod Indices
pub mod Identifiers
