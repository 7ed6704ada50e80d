-- What must be believed: the two conversions.
pub mod Convert
