pub mod Words
pub mod ProductLaws
pub mod DivisionLaws
pub mod Digits
pub mod Effects
