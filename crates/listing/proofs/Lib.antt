pub mod Filling
pub mod Listings
pub mod Ordered
pub mod Tallying
pub mod Trials
