pub mod Starts
pub mod Sums
pub mod Harts
pub mod HartSchedules
