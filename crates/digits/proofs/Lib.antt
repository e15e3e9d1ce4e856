pub mod Undone
pub mod Walks
