pub mod Forms
pub mod Alike
pub mod Characters
pub mod Restored
pub mod Sample
