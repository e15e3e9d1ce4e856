pub mod Forms
pub mod Importing
pub mod Coding
pub mod RoundTrip
