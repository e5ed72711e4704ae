pub mod Answers
pub mod Out
pub mod Places
