pub mod Laws
pub mod Many
pub mod Texts
pub mod Uses
