-- The definitions that the contracts of plane cite.
pub mod Vector
pub mod Segment
pub mod Orientation
