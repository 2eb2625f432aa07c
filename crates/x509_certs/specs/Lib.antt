pub mod Layouts
pub mod Signed
pub mod Extensions
pub mod Certificates
pub mod Lists
pub mod View
pub mod Data
