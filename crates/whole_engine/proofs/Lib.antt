-- The modules of laws.
pub mod Turning
pub mod Box
pub mod Meeting
pub mod Edges
pub mod Within
pub mod Lifting
pub mod Less
pub mod Sums
pub mod Read
pub mod Passed
pub mod Standing
pub mod Agrees
pub mod Only
pub mod Worked
