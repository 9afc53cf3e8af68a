pub mod Firsts
pub mod Walks
pub mod Colours
pub mod Kept
pub mod Causes
pub mod Numbers
pub mod Counts
