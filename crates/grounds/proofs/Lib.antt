-- The modules that belong to no one function.
pub mod Screened
pub mod Classes
pub mod Counts
pub mod Noted
pub mod Missed
pub mod Passed
pub mod Scanned
pub mod Others
pub mod Explained
pub mod Grounds
pub mod Answers
pub mod Worked
