pub mod Placed
pub mod Traces
pub mod Contents
pub mod Joined
pub mod Recordings
pub mod Lent
pub mod Few
