-- The events of a domain.
pub mod Events
pub mod Laws
pub mod Example
pub mod Worked
