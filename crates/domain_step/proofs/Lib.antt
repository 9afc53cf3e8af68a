mod Points
mod Charges
mod Yields
mod Accesses
mod Instructions
pub mod Events
mod Calls
pub mod Moved
pub mod Counts
pub mod Retired
pub mod Standing
pub mod Elements
pub mod InSlot
pub mod SwitchCounts
mod Moments
mod Among
mod Opens
