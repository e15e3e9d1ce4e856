pub mod Owners
pub mod Idle
