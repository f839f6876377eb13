-- The modules that belong to no one function.
pub mod Told
pub mod Unique
pub mod Worked
