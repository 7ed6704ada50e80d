pub mod Weights
pub mod Fitting
pub mod Bounds
pub mod Residuals
pub mod Thresholds
pub mod Running
pub mod Replies
