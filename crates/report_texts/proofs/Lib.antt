pub mod WrittenLines
pub mod Reported
pub mod GenTimes
pub mod Timed
