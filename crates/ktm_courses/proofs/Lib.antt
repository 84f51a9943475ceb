mod SoundCommands
pub mod offered
