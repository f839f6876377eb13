-- The definitions that the contracts of book_reader's inner functions cite.
pub mod Parts
