-- Laws of stores, step by step.
pub mod Stores
pub mod Writing
pub mod Answers
