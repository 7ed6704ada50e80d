-- What must be believed: items in a place of lent ones, and what `put` leaves for every input.
pub mod Placed
