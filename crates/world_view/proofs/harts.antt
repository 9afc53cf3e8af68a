-- Several harts, by induction on the order of their events.
pub mod OnHart
pub mod Events
pub mod Meets
pub mod Runs
pub mod Isolation
pub mod Clocks
pub mod OneHart
pub mod Position
pub mod Counted
pub mod Schedules
pub mod Always
pub mod Whole
