pub mod TakenAway
pub mod Places
pub mod Preparable
pub mod Covering
pub mod PreparedRead
pub mod Judged
pub mod Tests
pub mod Bytes
