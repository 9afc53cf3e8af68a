pub mod Parts
pub mod Places
pub mod Turns
pub mod Changes
pub mod Ended
