-- The modules that belong to no one function.
pub mod Steps
pub mod Numbers
pub mod Along
pub mod FarOne
pub mod Lengths
pub mod Worked
