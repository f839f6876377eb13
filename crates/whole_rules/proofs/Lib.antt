-- The modules of laws.
pub mod Bounds
pub mod Placed
pub mod Segments
pub mod Simple
pub mod Area
pub mod Same
pub mod Apart
pub mod Worked
