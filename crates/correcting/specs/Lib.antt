-- What must be believed: what a track is given, what of it is refused, and its corrected values.
pub mod Correct
pub mod Given
-- What the crate answers to Track.
pub mod Answer
pub mod Block
