pub mod Redacted
pub mod Laws
pub mod Example
