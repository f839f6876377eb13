-- The modules that belong to no one function.
pub mod Same
pub mod Traced
pub mod Told
pub mod Ends
pub mod Larger
pub mod Worked
