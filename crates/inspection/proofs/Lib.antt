-- The modules that belong to no one function.
pub mod Places
pub mod Laying
pub mod Screened
pub mod Counts
pub mod Rounds
pub mod Inspections
pub mod Runs
pub mod Worked
