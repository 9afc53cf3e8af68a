pub mod PageTableEntry
pub mod Walk
pub mod Translation
pub mod KeptLeaf
