-- The definitions that the contracts of ring_copies cite.
pub mod Copies
pub mod Calls
