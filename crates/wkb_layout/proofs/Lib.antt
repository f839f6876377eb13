-- The modules that belong to no one function.
pub mod Ordered
pub mod Numbers
pub mod Patterns
pub mod Rings
pub mod Checks
pub mod ReadBack
pub mod Drawn
pub mod Found
pub mod Alike
pub mod Theorems
pub mod Worked
