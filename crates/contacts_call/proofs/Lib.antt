-- The modules that belong to no one function.
pub mod Counting
pub mod Filling
pub mod Writing
pub mod Screened
pub mod Worked
