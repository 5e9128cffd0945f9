pub mod Lines
pub mod Steps
pub mod Numbers
pub mod Fields
pub mod Reading
pub mod Parts
pub mod Examples
