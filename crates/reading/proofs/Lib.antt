-- The modules that belong to no one function.
pub mod Turning
pub mod Order
pub mod Leasts
pub mod Own
pub mod Places
pub mod Size
pub mod KeptBits
pub mod Changed
pub mod Pushing
pub mod Step
pub mod Repeats
pub mod First
pub mod Lowest
pub mod Ways
