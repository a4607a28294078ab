pub mod Walk
pub mod Judging
pub mod Law
pub mod OpenWalk
pub mod OpenLaws
pub use Rattle.gin_opclass.specs.Class
pub use Rattle.core_state.specs.Readings
