pub mod Examples
pub mod Session
