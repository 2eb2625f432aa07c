pub mod Written
pub mod TimeLaws
pub mod NotBoth
