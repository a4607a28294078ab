pub mod Searching
pub mod Keys
pub mod Near
pub mod Marks
