-- What must be believed: the definitions.
pub mod Sum
pub mod Nearest
pub mod Square
pub mod Table
pub mod Words
-- What theorems are written in, and no contract.
pub mod Order
