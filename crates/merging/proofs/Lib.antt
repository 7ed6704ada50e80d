pub mod Steps
pub mod Walking
pub mod Replies
pub mod Merging
pub mod MergedFiles
