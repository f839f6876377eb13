-- The definitions that the contracts of the exported functions cite.
pub mod Handed
pub mod Explanations
pub mod Traces
pub mod Mends
pub mod Places
pub mod Verdicts
pub mod Clear
