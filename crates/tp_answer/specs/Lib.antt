pub mod Reading
pub mod Status
pub mod Runs
pub mod Answer
pub mod TopCall
pub mod Accepting
