-- The definitions that the contracts of vectors_call cite.
pub mod Calls
