pub mod Inner
pub mod Pattern
pub mod Reading
