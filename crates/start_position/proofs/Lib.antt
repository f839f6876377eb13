-- The modules that belong to no one function.
pub mod Lexical
pub mod Extreme
pub mod Answers
pub mod Worked
pub mod Answered
