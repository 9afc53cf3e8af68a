-- Declared boxes, each one way, what calls and switches make of them, and what one domain has of them.
pub mod Boxes
pub mod Sides
pub mod Models
pub mod Laws
pub mod Example
