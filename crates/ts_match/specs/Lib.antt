pub mod Meaning
pub mod Candidates
pub mod Judging
pub mod Plan
pub mod Class
pub mod Inner
pub mod Laws
