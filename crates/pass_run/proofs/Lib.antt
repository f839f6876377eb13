-- The modules that belong to no one function.
pub mod Onward
pub mod Standstill
