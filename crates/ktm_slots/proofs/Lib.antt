pub mod Costs
pub mod RowCosts
pub mod SlotCourses
pub mod SlotCommands
