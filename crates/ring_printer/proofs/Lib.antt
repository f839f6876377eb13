-- The modules that belong to no one function.
mod Rings
mod Books
