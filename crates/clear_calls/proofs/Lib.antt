-- The modules of laws.
pub mod Passed
pub mod Fronts
pub mod Written
pub mod Reasoned
pub mod Accepted
pub mod Only
pub mod Worked
