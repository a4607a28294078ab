pub mod NewPages
pub mod Worked
