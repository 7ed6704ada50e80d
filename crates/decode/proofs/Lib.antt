pub mod Little
pub mod Signeds
pub mod Rows
pub mod Pieces
