-- The definitions that the contract of disc_table, and that of discs, cite.
pub mod Table
