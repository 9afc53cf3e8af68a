pub mod Slots
pub mod Sides
pub mod Calls
pub mod Moves
