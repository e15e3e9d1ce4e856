pub mod Clash
pub mod Cuts
pub mod Walks
