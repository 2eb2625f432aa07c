pub mod Places
pub mod Xmss
