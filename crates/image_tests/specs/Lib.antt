-- What tests of definitions say.
pub mod Later
