pub mod Behind
pub mod Words
