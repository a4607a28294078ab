pub mod Snoc
pub mod Longest
pub mod StepCases
pub mod Lengths
pub mod Small
pub mod Some
pub mod Texts
pub mod Answering
mod Ends
