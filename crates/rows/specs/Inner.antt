pub mod Tried
pub mod Trying
