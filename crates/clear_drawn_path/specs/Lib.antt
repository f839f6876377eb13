-- The definitions that the contracts of clear_drawn_path cite.
pub mod Path
pub mod Lent
pub mod Calls
pub mod Told
