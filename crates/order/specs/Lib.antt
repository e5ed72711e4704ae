pub mod Bare
pub mod Inner
pub mod Order
