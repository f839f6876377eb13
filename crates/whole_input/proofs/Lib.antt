-- The modules that belong to no one function.
mod Signs
mod Parts
mod Worked
