-- The definitions that the contracts of overlap cite.
pub mod Extent
pub mod Overlap
pub mod Calls
