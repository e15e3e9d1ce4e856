pub mod Frames
pub mod Giving
