pub mod Tables
pub mod Read
pub mod Whole
pub mod Begun
pub mod Groups
pub mod Pushed
