-- The definitions that the contracts of number_bytes cite.
pub mod Bytes
