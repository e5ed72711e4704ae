pub mod Answering
pub mod Counting
pub mod OneAnswer
pub mod PartsCounting
pub mod Pieces
pub mod Placing
