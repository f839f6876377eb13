-- The definitions that the contracts of square_root cite, and roots worked out by them.
pub mod Root
pub mod Nearest
pub mod Examples
