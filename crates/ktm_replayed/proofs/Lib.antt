mod Past
mod OwnDones
mod Taking
mod Made
mod InPlace
mod Alone
pub mod offered
mod Within
