mod Linking
mod Marking
mod Sending
