pub mod Clones
pub mod Turns
pub mod Standing
pub mod Reached
pub mod Slots
pub mod Models
pub mod Choosers
pub mod Run
