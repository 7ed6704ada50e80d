-- The entry in force, the longer store read back, what an append does to it, and the promises of Job 9.
pub mod Forces
pub mod Longer
pub mod Appending
pub mod Promises
