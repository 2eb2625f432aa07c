pub mod SmallDocument
pub mod SameTrees
mod Base64Texts
mod AnswersOfReading
mod ReferenceFaults
mod CoveredOctets
mod RealDigests
mod WrittenContent
