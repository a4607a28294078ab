pub mod Letters
pub mod Tables
pub mod Stem
pub mod Views
pub mod Shapes
pub mod Laws
pub mod Porter
pub mod Worked
