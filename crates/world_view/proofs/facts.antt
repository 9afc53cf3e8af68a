-- What stays true at each moment, whoever runs: facts, rights, residency, what is for good.
pub mod FactsSame
pub mod FactsLaws
pub mod RightsLaws
pub mod ResidencyLaws
pub mod ForGood
pub mod KernelSets
