-- The definitions that the contracts of directions, and of what stands on them, cite.
pub mod Directions
