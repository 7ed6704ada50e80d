pub mod Lists
pub mod Laws
pub mod Decimals
pub mod Hexadecimals
pub mod Signs
