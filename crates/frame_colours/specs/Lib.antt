pub mod Colours
pub mod FreeList
