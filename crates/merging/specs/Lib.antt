-- What must be believed: what two line files make together, and what is refused.
pub mod Merge
