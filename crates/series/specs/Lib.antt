pub mod Answers
pub mod Smooth
pub mod Fit
pub mod Scatter
