-- The modules that belong to no one function.
pub mod Turned
pub mod Seven
pub mod Round
pub mod Drawn
pub mod Screened
pub mod Worked
