pub mod Changing
pub mod Folding
pub mod Holding
pub mod Meets
pub mod Others
pub mod PairNames
pub mod Present
pub mod offered
