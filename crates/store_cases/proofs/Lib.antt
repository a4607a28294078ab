mod Places
pub mod PlainSteps
