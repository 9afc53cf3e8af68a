pub mod Hardware
pub mod Rules
pub mod Extensions
pub mod Models
pub mod Laws
