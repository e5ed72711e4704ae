pub mod Parts
pub mod Searching
