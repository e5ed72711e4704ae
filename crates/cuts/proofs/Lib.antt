pub mod Cuts
pub mod From
pub mod Parts
pub mod Search
pub mod Trims
pub mod Writing
