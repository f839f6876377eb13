-- The modules of laws.
pub mod Both
pub mod Parts
pub mod Order
pub mod Plain
pub mod Rounding
pub mod Turns
pub mod FirstBest
