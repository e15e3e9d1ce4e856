pub mod Good
pub mod Idle
pub mod Owners
pub mod Places
pub mod Start
