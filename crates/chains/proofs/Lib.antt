-- The modules that belong to no one function.
pub mod Products
pub mod Range
pub mod Side
pub mod Edges
pub mod Table
