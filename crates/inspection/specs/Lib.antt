-- The definitions that the contracts of inspection cite, and the runs of shifts that its theorems speak of.
pub mod Places
pub mod Calls
pub mod Shifts
pub mod Runs
