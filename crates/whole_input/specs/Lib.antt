-- The definitions that the contracts of whole_input cite.
pub mod Whole
