pub mod Numbers
pub mod Reported
pub mod Validating
