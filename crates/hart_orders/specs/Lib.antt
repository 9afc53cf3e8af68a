pub mod Off
pub mod Cold
pub mod Order
pub mod Laws
