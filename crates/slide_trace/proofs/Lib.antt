-- The modules that belong to no one function.
mod Traces
mod Inputs
mod OneRing
