pub mod Walking
pub mod Single
pub mod There
pub mod Agreed
pub mod Passing
pub mod Told
