pub mod Fielding
pub mod Items
pub mod Lining
pub mod Sweep
pub mod Values
