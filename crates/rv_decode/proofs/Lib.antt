pub mod Immediates
pub mod WordLaws
pub mod WithoutMuldiv
pub mod Decoded
