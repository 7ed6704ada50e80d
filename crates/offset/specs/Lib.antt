-- What must be believed: what a shifted track is, and how its numbers move.
pub mod Shifted
