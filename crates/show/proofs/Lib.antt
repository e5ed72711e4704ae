pub mod Calling
pub mod Rowing
pub mod Saying
