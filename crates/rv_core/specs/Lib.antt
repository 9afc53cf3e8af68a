pub mod Exceptions
pub mod Registers
pub mod Alu
pub mod Products
pub mod Memory
pub mod Effect
pub mod Laws
