pub mod Answering
pub mod Far
pub mod Meeting
pub mod Placing
