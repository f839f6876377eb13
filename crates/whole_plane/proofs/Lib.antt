-- The modules of laws.
pub mod Shared
pub mod Signs
pub mod Crossing
pub mod Touching
pub mod Line
pub mod Meeting
pub mod Each
pub mod Simple
pub mod Shift
pub mod Calls
pub mod Worked
