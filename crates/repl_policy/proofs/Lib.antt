pub mod Packing
pub mod Shifts
pub mod Trees
pub mod Newest
pub mod Marking
