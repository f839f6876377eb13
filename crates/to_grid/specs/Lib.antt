-- The definitions that the contracts of to_grid cite.
pub mod Grid
pub mod Calls
