pub mod Found
pub mod Looking
pub mod Parts
