-- What the edges to the system keep.
pub mod Count
pub mod File
pub mod ImageFile
pub mod LateFile
pub mod Path
