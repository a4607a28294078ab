pub mod Steps
pub mod KindReading
pub mod ChangeReading
pub mod RecordReading
pub mod Loop
pub mod Patching
pub mod Appending
