pub mod Folder
pub mod System
pub mod FileDisk
pub mod MemoryFolder
pub mod Inner
