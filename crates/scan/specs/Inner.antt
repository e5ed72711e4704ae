pub mod Events
pub mod Points
pub mod Rests
pub mod Tags
pub mod Turns
