pub mod Examples
pub mod Inner
