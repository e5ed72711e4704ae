pub mod AsSingle
pub mod OneAnswer
pub mod Passing
