pub mod Ranges
pub mod WholeFloats
pub mod Shifts
pub mod Patterns
pub mod Roots
pub mod Points
pub mod Theorems
pub mod Products
