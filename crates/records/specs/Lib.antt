pub mod Layout
pub mod Records
