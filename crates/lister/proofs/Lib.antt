pub mod Spelled
pub mod Listed
pub mod Whole
