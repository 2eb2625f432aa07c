pub mod SimpleCharacters
pub mod WrittenValues
pub mod StartTags
pub mod WrittenNodes
pub mod ItemFragments
pub mod DocumentElement
pub mod DraftFragments
