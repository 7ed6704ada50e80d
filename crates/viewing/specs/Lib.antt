-- What must be believed: which lines of two line files are a pair, what is reported of the pairs, and what is refused.
pub mod View
-- What the functions that gather the report promise each other.
pub mod Gather
