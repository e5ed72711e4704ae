pub mod Examples
pub mod Inner
pub mod Plain
