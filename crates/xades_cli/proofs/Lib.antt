pub mod Computing
pub mod PolicyStops
pub mod ValidateLemmas
pub mod ValidateOnce
pub mod AttachOnce
pub mod CommandLemmas
pub mod OctetLemmas
pub mod DoneLemmas
pub mod RunLemmas
pub mod HandingLemmas
pub mod TimeTexts
pub mod WritableTexts
pub mod ReadyDrafts
pub mod PrepareLemmas
mod AttachLemmas
