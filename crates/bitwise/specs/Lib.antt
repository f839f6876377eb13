-- The definition that the contracts of bitwise, and of what stands on it, cite.
pub mod Same
