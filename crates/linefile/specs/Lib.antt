-- What must be believed: what a line file is, what it is refused for, and which lines of two files share their keys.
pub mod Files
pub mod Partners
-- What the functions that walk the files promise each other.
pub mod Walk
