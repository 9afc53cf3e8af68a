pub mod Powers
pub mod Parts
pub mod Products
pub mod Built
pub mod Verdicts
