pub mod Allowed
pub mod Spelled
pub mod Check
pub mod Picture
