mod Coming
mod Calls
