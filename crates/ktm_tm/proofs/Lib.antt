mod Carrying
mod Early
mod Kept
mod LiveCounts
mod Next
mod Numbers
mod OnCourse
mod Recovering
