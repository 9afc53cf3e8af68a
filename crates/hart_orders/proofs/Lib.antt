pub mod Held
pub mod Through
pub mod ColdCores
pub mod OneColour
pub mod Chosen
pub mod RunThrough
pub mod ChoiceLaws
