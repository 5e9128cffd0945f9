pub mod Blocks
pub mod Marks
pub mod Sound
pub mod Walk
