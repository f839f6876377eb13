-- The definitions that the contracts of segments cite.
pub mod Segments
pub mod Calls
