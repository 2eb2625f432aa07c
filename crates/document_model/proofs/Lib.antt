mod ItemExamples
mod FaultExamples
mod TextExamples
pub mod Kept
mod DepthExamples
mod PlaceExamples
mod EdgeFaults
pub mod Through
pub mod Grown
pub mod Put
mod InsertionExamples
pub mod Targets
mod FormExamples
pub mod Joins
pub mod Extending
pub mod ListOrder
