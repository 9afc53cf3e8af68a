pub mod Lending
pub mod Parties
pub mod Rule
pub mod Models
pub mod Laws
pub mod Example
