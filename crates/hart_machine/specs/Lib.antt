-- An image's harts as a machine of harts.
pub mod HartMachine
pub mod Laws
pub mod Example
