-- What must be believed: the columns of a line, and what a reader takes from them.
pub mod Text
pub mod Columns
-- What the writers of single columns promise each other.
pub mod Placed
