pub mod Placing
pub mod Giving
