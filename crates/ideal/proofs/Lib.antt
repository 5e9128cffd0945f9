pub mod Inhale
pub mod Calls
pub mod Exhaled
pub mod Meets
pub mod Totals
pub mod RunTotals
