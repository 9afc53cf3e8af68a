-- The lemmas of the crate.
pub mod FirstCases
pub mod Ranges
pub mod Listed
pub mod Loops
