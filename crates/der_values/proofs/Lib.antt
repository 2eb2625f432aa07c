mod Examples
pub mod Numbers
pub mod Walks
pub mod Steps
pub mod ElementLaws
pub mod FitsLaws
pub mod Stands
pub mod Shift
pub mod DistinctLaws
pub mod NotTwice
