-- The moments past a pin, from which laws over readings follow.
pub mod Timeline
pub mod Here
pub mod Told
pub mod Phases
pub mod Facts
pub mod Snapshot
pub mod Snapshots
pub mod Listed
pub mod Apart
pub mod Links
