pub mod Masks
pub mod Tables
