pub mod Ready
pub mod Picking
pub mod Rounds
pub mod Transfer
pub mod Transfers
