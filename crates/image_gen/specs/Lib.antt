-- A seed's image: the record that the words it draws make, and the text that says it.
pub mod Program
pub mod Instructions
pub mod Generated
pub mod Text
pub mod Laws
pub mod Example
