-- Laws that the proofs share, and the theorems.
pub mod Legs
pub mod Low
pub mod Drawn
pub mod Handed
pub mod Told
pub mod Only
pub mod Worked
