pub mod Criteria
pub mod Inner
pub mod Table
