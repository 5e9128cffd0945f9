pub mod Least
pub mod First
pub mod SetWalk
