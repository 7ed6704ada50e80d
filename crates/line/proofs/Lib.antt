pub mod Accepted
pub mod ReadBack
pub mod Sample
pub mod Blocks
pub mod ColumnTable
pub mod AcceptedBlocks
pub mod Retired
