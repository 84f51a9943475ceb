-- Lemmas that other crates cite.
pub mod CallSizes
pub mod ChangeSizes
pub mod CourseSizes
pub mod SettingSizes
