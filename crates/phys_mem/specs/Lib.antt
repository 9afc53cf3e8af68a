pub mod Address
pub mod Bytes
pub mod Contents
pub mod Slots
pub mod Mem
pub mod Holds
