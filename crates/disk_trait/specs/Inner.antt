pub mod Begun
pub mod Pushed
pub mod Kept
pub mod Tearing
pub mod Standing
