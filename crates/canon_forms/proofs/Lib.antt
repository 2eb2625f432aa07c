pub mod HeldNodes
pub mod LineTexts
pub mod Parts
pub mod SetTexts
pub mod ChildNodes
pub mod Walked
pub mod ElementTexts
pub mod SetOctets
