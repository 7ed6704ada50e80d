pub mod Track
pub mod Found
pub mod Packed
