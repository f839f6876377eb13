-- The modules of laws.
pub mod Sums
pub mod Turns
pub mod Lowered
pub mod Worked
