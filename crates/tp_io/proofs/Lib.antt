-- Lemmas for callers that write texts.
pub mod Known
pub mod InTurn
pub mod Each
