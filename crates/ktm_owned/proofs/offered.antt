-- Lemmas that other crates cite.
pub mod ClosedFiles
pub mod CoursesKept
pub mod EndedTransactions
pub mod FilesKept
pub mod KeysKept
pub mod OpenCalls
pub mod OwnCalls
pub mod OwnSettings
pub mod OwnedAfterCourses
pub mod Paths
pub mod PlainCalls
pub mod Restarts
pub mod RestoredChanges
pub mod SeenFiles
pub mod Undecided
