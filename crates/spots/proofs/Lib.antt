pub mod Showing
pub mod Valuing
