pub mod Downwards
pub mod Lowering
pub mod Rounds
pub mod ProvedTimes
pub mod Renewal
pub mod Decisions
pub mod Cases
pub mod Last
