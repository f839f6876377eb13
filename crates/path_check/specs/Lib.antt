-- The definitions that the contracts of path_check cite.
pub mod Path
pub mod Told
pub mod Rows
pub mod Calls
