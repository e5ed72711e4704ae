pub mod Atoms
pub mod Countdown
pub mod Drawing
pub mod Elements
pub mod Items
pub mod Listing
pub mod Places
pub mod Words
