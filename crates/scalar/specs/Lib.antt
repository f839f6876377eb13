-- The definitions that the contracts of scalar and of the crates above it cite.
pub mod Float
pub mod Scalar
