pub mod ByKind
pub mod Methods
pub mod Patterns
pub mod Trials
