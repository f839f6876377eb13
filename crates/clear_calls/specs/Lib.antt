-- The definitions that the contracts of the calls on whole moves cite.
pub mod Rows
pub mod Lent
pub mod Calls
pub mod Told
