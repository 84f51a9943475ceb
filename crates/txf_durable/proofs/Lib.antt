mod Deeds
mod Giving
mod HeldMore
mod Making
mod Meeting
mod Rising
mod Recordings
mod Trying
mod Units
pub mod offered
