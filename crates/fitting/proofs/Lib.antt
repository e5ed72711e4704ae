pub mod Evaluating
pub mod Members
pub mod Ruling
pub mod Spans
pub mod Trials
