pub mod Ascii
pub mod Rules
pub mod Page
pub mod Table
