pub mod Examples
pub mod Inner
pub mod Matching
pub mod Parts
