-- The definitions that the contracts and the theorems of mending cite.
pub mod Mending
pub mod Rows
pub mod Calls
pub mod Restoring
