-- The definitions that the contracts of print cite.
pub mod Digits
pub mod Text
pub mod Examples
