pub mod TextsOfTimes
pub mod Clocks
