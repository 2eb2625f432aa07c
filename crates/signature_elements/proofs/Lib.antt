pub mod Named
pub mod AsciiNames
pub mod Spotted
pub mod Laws
pub mod Texted
pub mod Tallies
