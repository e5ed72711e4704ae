pub mod Single
pub mod Walking
