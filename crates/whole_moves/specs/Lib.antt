-- The definitions that the contracts of whole_moves, and of the calls on whole moves, cite.
pub mod Moved
