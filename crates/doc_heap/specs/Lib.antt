pub mod HeapPages
pub mod Inner
pub mod Leaving
pub mod Logging
