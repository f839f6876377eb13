-- The laws of the input that programs share that take a pair.
pub mod Rings
pub mod OneRing
