pub mod Sink
pub mod Asked
pub mod Answers
