-- The modules that belong to no one function.
pub mod Nearest
pub mod Worked
pub mod Answered
