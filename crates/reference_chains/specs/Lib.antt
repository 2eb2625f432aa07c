pub mod HandedIn
pub mod Places
pub mod ChainsIn
pub mod ChainSteps
pub mod References
pub mod SetTexts
pub mod Decoding
