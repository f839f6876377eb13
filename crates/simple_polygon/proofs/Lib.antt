-- The modules that belong to no one function.
pub mod Apart
pub mod Row
pub mod Worked
