-- The one statement.
pub mod Measured
