-- What is found of a disc put aside, and what that tells of a drawing.
pub mod Found
pub mod Told
