mod Elements
mod Errors
mod Loading
mod Openings
mod Pages
pub mod PoolReads
mod Taking
mod SlotLaws
mod Opened
pub mod Seen
