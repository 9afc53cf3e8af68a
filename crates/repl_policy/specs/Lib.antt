pub mod Orders
pub mod Halves
pub mod Marks
pub mod Packed
pub mod Bits
pub mod Members
pub mod Victims
