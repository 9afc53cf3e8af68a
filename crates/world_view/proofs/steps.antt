-- An event, a step, a stretch of steps: the domain's own, and another's.
pub mod Fuel
pub mod CodeLaws
pub mod EventLaws
pub mod StepLaws
pub mod Clones
