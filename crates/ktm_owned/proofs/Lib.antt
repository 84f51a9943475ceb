mod NewTransactions
mod UnchangedFiles
pub mod offered
