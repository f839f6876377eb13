-- The definitions that the contracts of chains cite.
pub mod Chain
