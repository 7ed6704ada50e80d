pub mod Values
pub mod Gathering
pub mod Reports
pub mod Extremes
pub mod Pairing
pub mod CommonView
