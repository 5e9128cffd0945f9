pub mod Phase
pub mod Slots
pub mod States
pub mod Due
pub mod Departs
pub mod Demands
