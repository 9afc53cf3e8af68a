pub mod Rule
pub mod Cache
pub mod Example
pub mod Contents
pub mod Packed
pub mod Lines
pub mod Last
pub mod Calls
