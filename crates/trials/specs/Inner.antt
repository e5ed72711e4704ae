pub mod Patterns
pub mod Trying
