-- The modules that belong to no one function.
pub mod Zero
pub mod Cases
pub mod Worked
