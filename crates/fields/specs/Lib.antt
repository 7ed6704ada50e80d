pub mod Text
pub mod Read
pub mod Raw
