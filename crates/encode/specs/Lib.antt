-- What must be believed: the bytes of a number.
pub mod Encode
