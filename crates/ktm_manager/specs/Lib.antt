pub mod Managers
pub mod Rising
pub mod Durable
