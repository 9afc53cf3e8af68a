pub mod Stands
pub mod Kept
pub mod Standing
pub mod Moves
pub mod Propositions
pub mod Usage
pub mod InSlot
pub mod OpenSlot
