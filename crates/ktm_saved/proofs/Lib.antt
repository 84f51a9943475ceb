mod EachOther
mod Passed
mod Refused
pub mod SoFar
pub mod Ends
pub mod Lists
pub mod RisingKeys
pub mod RisingManagers
pub mod Fronts
pub mod GoodParts
pub mod Rows
pub mod Texts
pub mod Whole
mod Rest
