-- What must be believed: Line, and Block.
pub mod Line
pub mod Block
