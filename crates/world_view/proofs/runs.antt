-- A switch, and whole runs, by induction on slots.
pub mod SwitchParts
pub mod PartyLaws
pub mod BoxLaws
pub mod SwitchLaws
pub mod Arrivals
pub mod Quiet
pub mod Joined
pub mod WholeLaws
pub mod GuardLaws
