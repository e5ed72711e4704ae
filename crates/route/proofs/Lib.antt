pub mod Advancing
pub mod Trials
pub mod WalkLoop
pub mod Walking
