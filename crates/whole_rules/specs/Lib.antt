-- The rules in whole numbers.
pub mod Spots
pub mod Segments
pub mod Simple
pub mod Area
