pub mod Fitting
pub mod Good
pub mod Grammar
pub mod Keyed
pub mod Patterns
pub mod TextForms
