pub mod OwnerLemmas
pub mod SoundLemmas
pub mod RevokeLemmas
pub mod UseLemmas
