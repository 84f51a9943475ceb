pub mod Takes
pub mod Route
pub mod Completions
pub mod Targets
pub use Rattle.ktm_room.specs.Frames
