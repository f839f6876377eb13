-- The modules that belong to no one function.
mod Inputs
mod Answers
mod OneRing
