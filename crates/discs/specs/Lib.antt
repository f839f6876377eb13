-- The definitions that the contracts of discs cite.
pub mod Disc
pub mod Calls
