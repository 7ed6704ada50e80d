pub mod Texts
pub mod Sample
