-- The modules that belong to no one function.
pub mod Sums
pub mod Foot
pub mod Beyond
pub mod Clear
pub mod Widened
