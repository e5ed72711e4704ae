pub mod Agreement
pub mod Choices
pub mod Searching
pub mod Trying
pub mod Turning
