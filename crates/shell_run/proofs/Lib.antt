pub mod Streams
pub mod Standing
pub mod CommitTexts
pub mod Runs
pub mod Timing
pub mod Safety
pub mod Ending
pub mod Served
pub mod Meeting
pub mod OfTexts
pub mod Moving
pub mod Rows
pub mod Calling
pub mod Going
pub mod Progressing
pub mod OneAnswer
pub mod Traces
pub mod NextRun
mod Bodies
mod Taking
mod MappingLines
pub mod Turning
mod OneDefinition
pub mod FewPages
