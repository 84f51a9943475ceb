pub mod Drawing
pub mod Parts
