pub mod Accepting
pub mod Answers
pub mod Kept
pub mod Commands
pub mod Reports
pub mod Numbers
pub mod Runs
pub mod Told
