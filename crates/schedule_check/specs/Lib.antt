pub mod Interrupts
pub mod Schedule
pub mod Harts
pub mod Mail
pub mod Example
