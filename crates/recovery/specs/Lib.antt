-- The definitions that the contracts of recovery cite.
pub mod Recovery
pub mod Calls
