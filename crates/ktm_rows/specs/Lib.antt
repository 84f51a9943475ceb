pub mod RowsOfViews
pub mod RowsOfConflicts
pub mod RowsOfFiles
pub mod RowsOfLimits
pub mod RowsOfTransactions
pub mod RowsOfRestarts
pub mod RowsOfHandles
pub mod RowsOfKeys
