pub mod ByteLemmas
pub mod FrameLemmas
pub mod GivingLemmas
pub mod HoldsLemmas
pub mod NewLemmas
pub mod SlotLemmas
pub mod TakingLemmas
pub mod TimesLemmas
