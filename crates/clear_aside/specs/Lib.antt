-- The definitions that the contracts of clear_aside cite.
pub mod Aside
