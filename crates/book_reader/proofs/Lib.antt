-- The modules that belong to no one function.
mod Fields
mod Coords
mod Entries
mod Rings
pub mod Files
pub mod Handed
