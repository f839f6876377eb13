-- The modules that belong to no one function.
mod Part
mod Storing
mod Stored
pub mod Answering
