-- The definitions that the contracts of whole_engine cite.
pub mod Sides
pub mod Rows
pub mod Calls
pub mod Drawn
