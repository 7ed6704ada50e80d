pub mod Arrays
pub mod Blocks
pub mod Columns
pub mod Groups
pub mod Parts
pub mod Refusals
pub mod Largest
