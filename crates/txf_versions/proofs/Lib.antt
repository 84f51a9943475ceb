pub mod Apart
pub mod Holding
pub mod Indexes
pub mod NamesTold
pub mod Ready
pub mod Sorted
pub mod Tests
pub mod Walked
