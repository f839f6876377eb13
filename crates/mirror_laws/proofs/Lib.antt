-- The theorems, and what they rest on.
pub mod Twice
pub mod Books
pub mod Exchange
pub mod Opposite
pub mod Sides
pub mod Area
pub mod Terms
pub mod Worked
