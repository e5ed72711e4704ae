pub mod Accepting
pub mod Answers
pub mod Decoded
pub mod Kept
pub mod Places
pub mod Writable
