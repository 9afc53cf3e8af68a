-- What an event and a switch take at most, so that each slot begins at its start.
pub mod ActCosts
pub mod TimeLaws
pub mod ClockLaws
