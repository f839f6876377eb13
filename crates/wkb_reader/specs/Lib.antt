-- The definitions that the contracts of the reader's inner functions cite.
pub mod Parts
