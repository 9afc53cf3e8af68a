-- The most cycles that a switch takes past a slot's end.
pub mod Bound
pub mod Models
pub mod Worst
pub mod Example
