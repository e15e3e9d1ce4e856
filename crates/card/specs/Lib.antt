pub mod Result
pub mod Code
pub mod Image
pub mod Exact
