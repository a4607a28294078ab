pub mod Working
pub mod Turns
pub mod Deleting
