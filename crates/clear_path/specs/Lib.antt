-- The definitions that the contracts of clear_path cite.
pub mod Rows
pub mod Path
pub mod Lent
pub mod Calls
pub mod Told
