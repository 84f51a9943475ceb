pub mod Holding
pub mod HoldingContents
pub mod Showing
