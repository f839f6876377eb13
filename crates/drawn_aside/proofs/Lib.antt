-- The theorems.
pub mod Lowered
pub mod Told
pub mod Least
