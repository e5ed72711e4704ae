pub mod Advance
pub mod Examples
pub mod Inner
