-- What must be believed: where the comment begins. What the reader answers stands in crate reading.
pub mod Comment
-- What the returned part of a line is.
pub mod Part
