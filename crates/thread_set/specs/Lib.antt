pub mod Threads
pub mod Models
