mod Changing
mod Counting
mod Grouping
mod Places
mod Told
