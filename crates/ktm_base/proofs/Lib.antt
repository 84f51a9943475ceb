pub mod offered
mod Compared
mod PieceLemmas
