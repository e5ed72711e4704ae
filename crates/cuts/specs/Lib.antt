pub mod Cutting
pub mod Inner
pub mod Trimming
