-- The definitions that the contracts of handed_drawn, and of the exported functions on drawn moves, cite.
pub mod Drawn
