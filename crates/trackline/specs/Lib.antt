-- What must be believed: what is printed of a block.
pub mod Printed
