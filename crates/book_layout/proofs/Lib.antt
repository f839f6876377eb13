-- The modules that belong to no one function.
pub mod Each
pub mod Passing
pub mod Bytes
pub mod Laid
pub mod Books
pub mod Checks
pub mod Found
pub mod Exact
pub mod Lent
pub mod Outlines
pub mod Theorems
pub mod Old
