-- The lemmas of the crate.
pub mod Counts
pub mod Loops
pub mod Parts
pub mod KeyRows
pub mod WholeRows
pub mod Ranges
pub mod Calls
pub mod Numbers
