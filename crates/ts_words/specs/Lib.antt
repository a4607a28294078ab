pub mod StopLists
pub mod Simple
