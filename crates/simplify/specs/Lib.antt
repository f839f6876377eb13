-- The definitions that the contracts of simplify cite.
pub mod Simplify
pub mod Calls
