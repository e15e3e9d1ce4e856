pub mod Accepted
pub mod Among
pub mod Course
pub mod Inside
pub mod Taking
pub mod Working
