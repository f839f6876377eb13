-- The definitions that the contracts of the calls on drawn moves cite.
pub mod Legs
pub mod Calls
pub mod Told
