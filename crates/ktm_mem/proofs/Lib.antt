pub mod ReadSteps
pub mod OffOrNot
