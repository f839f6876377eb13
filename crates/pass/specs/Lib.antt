-- The definitions that the contracts of pass cite.
pub mod Stop
pub mod Slide
pub mod Pass
