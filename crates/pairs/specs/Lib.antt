-- The definitions that the contracts of pairs, and of the scans over them, cite.
pub mod Pairs
