-- The modules of laws.
pub mod Small
pub mod Way
pub mod Heights
pub mod Marks
pub mod Corners
pub mod Edges
pub mod Worked
