pub mod Lists
pub mod Stretch
pub mod Stretches
pub mod Walk
