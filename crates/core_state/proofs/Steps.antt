-- What a session may log, and what a logged step keeps.
pub mod Seen
pub mod Drawn
pub mod Heads
pub mod Transactions
pub mod OwnHeads
pub mod Documents
pub mod Pending
pub mod Pinned
pub mod Pins
pub mod Making
pub mod Logged
