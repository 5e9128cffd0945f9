pub mod Stores
pub mod Inhale
pub mod Exhale
