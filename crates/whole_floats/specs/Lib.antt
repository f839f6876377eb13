-- The definitions that the crates about whole coordinates cite.
pub mod Whole
