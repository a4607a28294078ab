pub mod Answering
pub mod Bodies
pub mod Definitions
pub mod Sending
pub mod Refusing
pub mod Serving
pub mod Statuses
