pub mod Refusal
pub mod Reply
pub mod Numbers
pub mod Limits
pub mod Blocks
pub mod Lists
pub mod Scan
