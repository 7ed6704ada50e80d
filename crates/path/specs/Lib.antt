-- What must be believed: a coordinate, the root, and the path with its refusals. Between is what the functions within say of each other.
pub mod Coordinate
pub mod Root
pub mod Path
pub mod Between
