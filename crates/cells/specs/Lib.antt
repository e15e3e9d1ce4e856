pub mod Contract
pub mod Attempts
pub mod Openings
pub mod Top
