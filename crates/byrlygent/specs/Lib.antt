-- The definitions that the contracts of the exported functions cite.
pub mod Lent
pub mod Version
