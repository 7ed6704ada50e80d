-- What must be believed: a day's hire blocks, what they are refused for, the line file they make, and what the cases of the answer mean.
pub mod Day
pub mod Answers
-- What the functions that walk the blocks promise each other.
pub mod Walk
