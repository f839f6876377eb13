-- The modules that belong to no one function.
pub mod ByKind
pub mod Picks
pub mod Following
pub mod Worked
pub mod Rowing
pub mod Skipped
pub mod Regions
