pub mod Written
mod QuotedTexts
mod SimpleTexts
mod ReferenceOctets
mod PropertyOctets
mod PartOctets
mod AloneTexts
