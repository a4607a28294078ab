-- How bytes are written: what no caller sees.
pub mod Putting
