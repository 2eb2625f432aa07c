pub mod Looking
pub mod Told
pub mod Whole
pub mod OneFault
