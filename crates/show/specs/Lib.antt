pub mod Examples
pub mod Show
pub mod Steps
