mod Bytes
mod Placed
mod Steps
mod Left
