pub mod Partial
pub mod Words
