-- Lemmas of the switch.
pub mod Charges
pub mod OnTime
