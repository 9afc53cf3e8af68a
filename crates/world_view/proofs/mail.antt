-- Boxes over whole runs: where what comes to a domain comes from, and who can make a difference to it.
pub mod Moves
pub mod BoxEvents
pub mod Waiting
pub mod Arriving
pub mod Alike
pub mod Reached
pub mod Senders
pub mod Rows
