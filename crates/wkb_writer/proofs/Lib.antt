-- The modules that belong to no one function.
mod Storing
mod Stored
mod Screened
