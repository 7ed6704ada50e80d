pub mod Placing
pub mod Widths
pub mod Whole
pub mod Spaces
pub mod ReadBack
