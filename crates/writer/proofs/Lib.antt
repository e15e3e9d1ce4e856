pub mod Stores
pub mod Success
pub mod RoundTrip
