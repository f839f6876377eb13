-- The definitions that the contracts of vectors, and of what stands on them, cite.
pub mod Vectors
pub mod Courses
pub mod Fit
pub mod Places
