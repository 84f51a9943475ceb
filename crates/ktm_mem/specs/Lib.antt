pub mod Schedule
pub mod Objects
pub mod PowerSupply
pub mod DiskInMemory
