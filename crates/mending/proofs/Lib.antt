-- The modules that belong to no one function.
pub mod Equal
pub mod Trailing
pub mod Fates
pub mod Counting
pub mod Writing
pub mod Screened
pub mod Picked
pub mod Restored
pub mod Neighbours
pub mod Runs
pub mod Again
pub mod Only
pub mod Worked
pub mod Answered
