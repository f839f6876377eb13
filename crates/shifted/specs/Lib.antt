-- The definitions that the engine in whole numbers cites.
pub mod Shifted
