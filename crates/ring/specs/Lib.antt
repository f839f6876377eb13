-- The definitions that the contracts of ring, and of the crates over rings, cite.
pub mod Ring
pub mod Room
pub mod Points
pub mod Moved
pub mod Each
