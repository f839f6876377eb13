-- The definitions that the contracts of simple_polygon cite.
pub mod Simple
pub mod Sides
pub mod Calls
