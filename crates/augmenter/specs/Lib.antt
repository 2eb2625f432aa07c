pub mod Findings
pub mod Targets
pub mod Preparing
pub mod Answers
pub mod Items
pub mod Attaching
pub mod Judging
