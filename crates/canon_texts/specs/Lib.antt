pub mod WrittenAt
