pub mod WriteLemmas
pub mod RefusalLemmas
pub mod WalkLemmas
pub mod KeptLemmas
pub mod PageLemmas
pub mod ReachLemmas
pub mod RegionLemmas
pub mod ReachedWalks
