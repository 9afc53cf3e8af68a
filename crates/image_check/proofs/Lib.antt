pub mod Kept
pub mod Tested
pub mod Padded
pub mod OwnSlots
pub mod Owns
pub mod Shares
pub mod Running
pub mod FirstParts
