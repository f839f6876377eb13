-- The modules of laws.
pub mod Below
pub mod Boxes
pub mod WayLines
pub mod Flags
pub mod Firsts
pub mod Laying
pub mod Found
pub mod Within
pub mod Lines
pub mod Worked
