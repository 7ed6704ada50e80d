-- What must be believed: what a line is refused for, what stands in it, what the cases of the answer mean, and the same of an old line.
pub mod Read
pub mod Answers
pub mod Old
-- What the functions that read single fields ask.
pub mod Fields
