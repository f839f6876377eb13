-- The modules that belong to no one function.
pub mod Nearer
pub mod Passed
pub mod Rows
pub mod Counting
pub mod Pairs
pub mod Nearest
pub mod Answers
pub mod Worked
