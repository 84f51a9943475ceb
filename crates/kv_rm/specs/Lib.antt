pub mod Place
pub mod Count
pub mod Held
pub mod Calls
pub mod Split
pub mod Restored
pub mod Participant
