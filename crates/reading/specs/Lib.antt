-- The definitions that the contracts of reading, and of the book's crates above it, cite.
pub mod Reading
pub mod Lent
pub mod Starts
pub mod Examples
