pub mod Said
pub mod Ready
