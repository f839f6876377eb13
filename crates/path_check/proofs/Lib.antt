-- The modules that belong to no one function.
pub mod Search
pub mod Placed
pub mod Told
pub mod Worked
