-- What must be believed: the bytes of a hire block.
pub mod Hire
-- What the crate answers to Block.
pub mod Found
