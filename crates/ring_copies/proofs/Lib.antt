-- The modules that belong to no one function.
pub mod Turning
pub mod Opening
pub mod Screened
pub mod Worked
