pub mod Elsewhere
pub mod Cut
pub mod Left
pub mod Sure
