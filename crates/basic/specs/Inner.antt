pub mod Drawn
pub mod Judged
pub mod Places
pub mod Sets
