pub mod Inside
pub mod Grown
pub mod FaultsStay
pub mod Renewing
pub mod OnBytes
pub mod Renewed
