-- The modules that belong to no one function.
pub mod Legs
pub mod Placed
pub mod Told
pub mod Only
pub mod Worked
