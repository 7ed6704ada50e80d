-- Two provers, for identities and for linear orders, and what they stand on.
pub mod Differences
pub mod Ring
pub mod Identity
pub mod Linear
-- The laws.
pub mod Order
pub mod Magnitudes
pub mod Sums
pub mod Tables
pub mod Rounding
pub mod Words
-- Laws for functions.
pub mod Negative
pub mod Offsets
