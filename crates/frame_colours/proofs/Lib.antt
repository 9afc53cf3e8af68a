pub mod Ascending
pub mod Pools
pub mod Placed
pub mod Rounds
pub mod Disjoint
pub mod Splits
