pub mod Tracks
pub mod Held
pub mod Unpacked
pub mod Accuracy
pub mod Retired
