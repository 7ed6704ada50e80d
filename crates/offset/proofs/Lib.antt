pub mod Series
pub mod Tracks
pub mod Blocks
pub mod Files
