-- The modules that belong to no one function.
pub mod Survive
pub mod Whole
pub mod Screened
pub mod Worked
