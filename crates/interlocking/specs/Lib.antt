-- The definitions that the contracts of interlocking cite.
pub mod Interlocking
pub mod Calls
