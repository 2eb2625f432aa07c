pub mod MakerLemmas
pub mod WordLemmas
