-- What must be believed: the definitions of the exact figures, and what is promised of a track's figures.
pub mod Parabola
pub mod Line
pub mod Corrected
pub mod Accurate
-- The table of the program's weights, which none of those uses.
pub mod Weights
-- What theorems say beyond it.
pub mod Accuracy
