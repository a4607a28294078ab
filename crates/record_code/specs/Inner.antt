-- What no caller sees.
pub mod Growing
