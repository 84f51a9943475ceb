mod Twice
mod Same
mod Seen
mod UnitsLaws
mod Writing
