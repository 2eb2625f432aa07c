pub mod Places
pub mod XmssMt
