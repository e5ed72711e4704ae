pub mod Bits
pub mod Bytes
pub mod Inner
pub mod Lists
pub mod Option
