pub mod Words
pub mod Search
pub mod Header
pub mod Exact
pub mod Refused
