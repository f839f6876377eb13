-- The definitions that the contracts of frames cite.
pub mod Frame
