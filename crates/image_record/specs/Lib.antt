-- The definitions of the crate.
pub mod Record
pub mod Parts
pub mod Models
pub mod Numbers
pub mod Cases
pub mod Outcomes
