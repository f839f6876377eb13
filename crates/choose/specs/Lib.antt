-- The definitions that the contracts of choose, and of the pass over it, cite.
pub mod Choose
