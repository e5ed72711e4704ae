pub mod Answer
pub mod Composing
pub mod Examples
pub mod Inner
