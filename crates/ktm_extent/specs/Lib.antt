pub mod Extent
pub mod Calls
pub mod Units
