pub mod Loops
pub mod Seen
