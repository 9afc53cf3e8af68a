-- Harts over one state, whose events come in different orders.
pub mod Machine
pub mod Orders
pub mod Laws
pub mod Small
pub mod Theorems
pub mod Example
