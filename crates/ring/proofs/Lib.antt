-- The modules that belong to no one function.
pub mod Emit
pub mod Mapped
pub mod Points
pub mod Moved
pub mod Each
pub mod Worked
