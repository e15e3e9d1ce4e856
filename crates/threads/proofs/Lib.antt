pub mod Ready
pub mod Idle
