pub mod Tried
pub mod Tests
pub mod Names
pub mod Fits
