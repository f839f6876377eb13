-- The definitions that the contracts of winding cite.
pub mod Winding
