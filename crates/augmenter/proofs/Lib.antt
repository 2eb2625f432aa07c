pub mod FoundPlaces
mod TakenTexts
mod NamedOctets
mod DigestBytes
mod Preparation
mod Outcomes
mod OneItem
mod ValidityStays
mod Steps
mod Renewing
mod Files
pub mod OneAnswer
