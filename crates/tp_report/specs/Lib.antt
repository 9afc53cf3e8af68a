pub mod Texts
pub mod Report
pub mod Laws
pub mod Pieces
pub mod Batches
pub mod Switches
pub mod Demo
