pub mod Grammar
pub mod Inner
pub mod Reading
