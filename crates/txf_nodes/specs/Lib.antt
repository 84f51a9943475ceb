pub mod Children
pub mod Found
pub mod Indexes
pub mod Left
pub mod Lends
pub mod NodesState
pub mod Places
