pub mod Slots
pub mod Owning
pub mod Words
