mod FragmentOctets
mod Appending
mod Alone
pub mod PutItem
mod Splitting
pub mod OneMaterial
pub mod MaterialElements
