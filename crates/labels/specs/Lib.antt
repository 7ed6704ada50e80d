-- What must be believed: the labels and the ten numbers, the ranges, and what a line's content is refused for.
pub mod Given
pub mod Labels
pub mod Content
