pub mod BodyLines
pub mod Describing
pub mod Laws
pub mod Norm
pub mod Shortening
pub mod Small
pub mod Values
pub mod Walks
