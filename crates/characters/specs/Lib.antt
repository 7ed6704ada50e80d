-- What must be believed: what a column may hold, and what the characters of a line are refused for.
pub mod Kinds
pub mod Characters
-- The same of either form of a line.
pub mod Forms
