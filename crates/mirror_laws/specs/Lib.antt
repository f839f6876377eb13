-- The definitions that the mirror laws cite.
pub mod Mirrored
pub mod Exchanged
