pub mod Steps
pub mod Reached
pub mod CaseLaws
pub mod TokenLaws
pub mod CaseSteps
pub mod Ordered
