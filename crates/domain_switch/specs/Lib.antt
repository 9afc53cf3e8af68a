-- What a switch of domains comes to.
pub mod Switch
