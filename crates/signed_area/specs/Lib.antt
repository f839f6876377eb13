-- The definitions that the contracts of signed_area cite.
pub mod Area
pub mod Calls
