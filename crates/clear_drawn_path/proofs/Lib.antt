-- Laws that the proofs share, and the theorems.
pub mod Legs
pub mod Drawn
pub mod Only
pub mod Told
