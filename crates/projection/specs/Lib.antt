-- The definitions that the contracts of projection, and of the contacts' call, cite.
pub mod Foot
pub mod Calls
