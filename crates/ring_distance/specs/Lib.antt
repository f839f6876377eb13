-- The definitions that the contracts of ring_distance cite.
pub mod Distance
pub mod Squared
pub mod Far
pub mod Calls
