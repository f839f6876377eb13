-- The outline book: its bytes, the checks of a file, and what its writer and its reader do.
pub mod Layout
pub mod Faults
pub mod Writer
pub mod Reader
pub mod Examples
