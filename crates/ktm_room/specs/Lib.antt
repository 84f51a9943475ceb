pub mod Frames
pub mod Snapshots
