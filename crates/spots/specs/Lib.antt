pub mod Inner
pub mod Spots
