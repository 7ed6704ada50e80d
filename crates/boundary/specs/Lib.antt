-- What must be believed: what a C caller finds in the places that it lent for numbers.
pub mod Values
