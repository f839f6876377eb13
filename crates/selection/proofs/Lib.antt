-- The modules that belong to no one function.
pub mod Above
pub mod Greatest
pub mod Answers
pub mod Worked
pub mod Answered
