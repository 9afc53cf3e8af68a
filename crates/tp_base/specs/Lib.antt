-- What every other crate's definitions stand on.
pub mod Table
pub mod Act
pub mod Ranges
pub mod Rights
