pub mod Soundnesses
pub mod OneAnswer
pub mod OneReport
