pub mod Marks
pub mod Stored
pub mod Store
pub mod Pool
pub mod Frames
pub mod Change
pub mod Filling
pub mod Holding
