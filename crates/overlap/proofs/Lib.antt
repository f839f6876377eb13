-- The modules that belong to no one function.
pub mod Fold
pub mod Worked
