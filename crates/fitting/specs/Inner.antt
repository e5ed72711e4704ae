pub mod Rowwise
pub mod Trigger
