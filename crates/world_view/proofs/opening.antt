-- What the machine opens with.
pub mod Counts
pub mod PoolLaws
pub mod Separate
pub mod Parts
pub mod OpeningClaims
pub mod OpeningFacts
pub mod OpeningLaws
pub mod OpenedWalks
pub mod OpeningRights
