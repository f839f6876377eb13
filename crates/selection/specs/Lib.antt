-- The definitions that the contracts of selection cite.
pub mod Score
pub mod Select
pub mod Chosen
pub mod Calls
