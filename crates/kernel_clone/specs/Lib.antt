-- What a kernel operation touches.
pub mod Footprints
pub mod Models
pub mod Permissions
pub mod Laws
pub mod Example
