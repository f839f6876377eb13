-- The definitions that the contracts of nfp_sliding cite.
pub mod Path
pub mod Calls
pub mod Larger
