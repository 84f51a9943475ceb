mod Spelled
mod PagedLogs
mod Folds
mod Giving
mod Meant
mod Readings
mod SettingsApplied
mod GroupReadings
mod LogLoads
mod GoodLogs
mod Replays
mod BehindHeader
pub mod offered
