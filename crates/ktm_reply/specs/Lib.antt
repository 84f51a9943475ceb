pub mod Refusals
pub mod Kinds
pub mod States
pub mod Spelling
pub mod Reading
pub mod WorkedReplies
