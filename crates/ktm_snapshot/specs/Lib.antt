pub mod Works
pub mod StateGrammar
pub mod Sizes
pub mod Shown
pub mod Pieces
pub mod Laws
pub mod Examples
