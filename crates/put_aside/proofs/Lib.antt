-- The modules of laws.
pub mod Leasts
pub mod Steps
pub mod Laying
pub mod Off
pub mod Worked
