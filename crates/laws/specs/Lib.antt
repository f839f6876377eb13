-- The definitions that the crates that scan cite.
pub mod Turns
pub mod FirstBest
