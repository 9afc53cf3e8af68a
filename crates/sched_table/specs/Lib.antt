-- Whose slot comes when.
pub mod Schedule
pub mod Laws
pub mod Tables
pub mod Example
