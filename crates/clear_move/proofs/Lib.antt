-- The modules that belong to no one function.
mod Signs
mod Shares
mod Listed
mod Runs
mod Reasons
mod Alike
mod Tests
mod Inputs
mod Books
mod Answers
mod Worked
