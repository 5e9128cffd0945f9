pub mod Layout
pub mod Queues
pub mod Chains
pub mod Heads
pub mod Lining
