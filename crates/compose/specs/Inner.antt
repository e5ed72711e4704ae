pub mod Groups
pub mod Storing
pub mod Telling
pub mod Values
