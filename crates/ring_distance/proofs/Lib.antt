-- The modules that belong to no one function.
pub mod Signs
pub mod Roots
pub mod Turns
pub mod Off
pub mod Filled
pub mod Worked
