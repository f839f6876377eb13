-- The modules that belong to no one function.
pub mod Each
pub mod Bytes
pub mod Formed
mod Places
mod Puts
mod Nan
