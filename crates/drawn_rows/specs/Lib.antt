-- The definitions that the contracts of drawn_rows, and of the calls on drawn moves, cite.
pub mod Rows
pub mod Lent
