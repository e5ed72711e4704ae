pub mod Examples
pub mod Image
pub mod Inner
pub mod Judging
pub mod Reader
pub mod Written
