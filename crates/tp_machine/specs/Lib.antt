pub mod Models
pub mod OneHart
pub mod Ablated
pub mod GuardLaws
