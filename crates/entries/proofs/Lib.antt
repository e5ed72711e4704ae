pub mod CriteriaLoop
pub mod Decode
pub mod MemberLoop
pub mod RowLoop
