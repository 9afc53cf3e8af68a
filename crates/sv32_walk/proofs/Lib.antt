pub mod EntryLemmas
pub mod WordLemmas
pub mod WalkLemmas
pub mod KeptLeafLemmas
pub mod WalkSteps
