mod Lists
mod Recorded
mod Spelled
