pub mod IndexLaws
pub mod IdentifierLaws
