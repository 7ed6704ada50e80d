pub mod Laws
pub mod Lists
pub mod Scans
pub mod Replies
pub mod Blocks
pub mod Parts
pub mod Cases
