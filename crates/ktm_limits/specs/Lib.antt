pub mod LimitsKept
