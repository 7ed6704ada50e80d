-- Laws of items in a place of lent ones, and of a whole written piece by piece.
pub mod Placing
pub mod Written
