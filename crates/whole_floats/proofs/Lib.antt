-- The modules of laws.
pub mod Fraction
pub mod Exact
pub mod Differences
pub mod Compare
pub mod Picked
pub mod Margin
pub mod Worked
