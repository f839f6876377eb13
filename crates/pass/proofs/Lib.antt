-- The modules that belong to no one function.
pub mod Cases
pub mod Reasons
pub mod Worked
