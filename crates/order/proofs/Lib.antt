pub mod Chosen
pub mod Finding
pub mod Rising
pub mod Scanning
pub mod Standings
pub mod Sums
