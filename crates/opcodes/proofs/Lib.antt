pub mod Each
pub mod Same
pub mod Rows
