pub mod Counts
pub mod Tallied
