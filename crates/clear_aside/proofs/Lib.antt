-- Laws that the proofs share.
pub mod Held
pub mod Fronts
pub mod Hows
pub mod Worked
