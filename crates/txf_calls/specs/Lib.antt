pub mod Calls
pub mod Fits
pub mod Found
pub mod Leads
pub mod Steps
pub mod There
