pub mod Tests
pub mod Regions
pub mod Line
pub mod Waking
pub mod Owning
pub mod Idle
