-- The definitions that the contracts of the reader and of the writer cite, and the theorems of the format.
pub mod Layout
pub mod Faults
pub mod Reader
pub mod Writer
pub mod Drawing
