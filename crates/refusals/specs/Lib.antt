-- The definitions that the contracts of refusals, and of every public call, cite.
pub mod Refusals
pub mod Bounds
pub mod Rings
pub mod Lists
pub mod Screens
pub mod Rows
pub mod Answers
