pub mod Tables
pub mod Reached
pub mod Changes
pub mod Walks
