-- The modules that belong to no one function.
pub mod Order
pub mod Worked
pub mod Kept
