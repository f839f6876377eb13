-- The definitions that the contracts of replay cite.
pub mod Tally
