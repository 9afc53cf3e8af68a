-- The definitions of the crate.
pub mod Rows
pub mod Unknown
pub mod Record
pub mod Models
pub mod Reads
pub mod Numbers
