pub mod Bytes
pub mod Word
pub mod Rules
pub mod Sentence
