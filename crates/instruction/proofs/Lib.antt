pub mod Stores
pub mod Checks
pub mod Sentence
