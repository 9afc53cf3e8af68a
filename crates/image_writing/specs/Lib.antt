pub mod Data
pub mod Writing
pub mod Text
