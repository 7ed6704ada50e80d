-- What must be believed: where things lie in a store, which set is in force, what append makes, what is refused, and what the cases of the
-- answers mean.
pub mod Store
pub mod Lookup
pub mod Append
pub mod Answers
