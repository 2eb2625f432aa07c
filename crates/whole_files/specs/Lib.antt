pub mod Roles
pub mod Wants
pub mod Faults
pub mod Asking
