-- The definitions that the contracts of collision cite.
pub mod Ray
pub mod Hit
pub mod Parts
pub mod Row
pub mod Check
pub mod Chained
pub mod Nearest
pub mod Calls
