-- The order of two harts' switches by the schedule alone.
pub mod Apart
pub mod Turns
pub mod Laws
pub mod Example
