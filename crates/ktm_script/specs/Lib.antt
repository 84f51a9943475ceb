pub mod Reading
pub mod Spelling
pub mod Lengths
pub mod WorkedLines
