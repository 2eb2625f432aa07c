-- What is said of each part, and that it is what is to be said of a signature.
pub mod Levels
pub mod References
pub mod Stamps
pub mod Objects
pub mod Gathered
pub mod Fitting
pub mod Yes
