pub mod Body
pub mod Description
pub mod Inner
pub mod Names
pub mod Values
