pub mod Agreeing
pub mod Hunt
pub mod OneAnswer
pub mod Places
pub mod Scan
pub mod Stepping
