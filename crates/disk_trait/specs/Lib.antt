pub mod Files
pub mod Device
pub mod Runs
pub mod Schedules
pub mod Streams
pub mod Events
pub mod MemoryDisk
pub mod Inner
