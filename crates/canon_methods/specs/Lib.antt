pub mod Words
pub mod Sought
pub mod Rules
pub mod Forms
pub mod Listed
