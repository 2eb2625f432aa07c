mod Cursors
pub mod FittingTexts
pub mod GrammarLemmas
mod KeyTexts
mod KeyedTexts
mod PrefixTexts
mod TextsBehind
