-- Laws that the proofs share.
pub mod Placed
pub mod Screened
pub mod Passed
pub mod Worked
