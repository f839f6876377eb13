-- The definitions that the contracts of reason_search cite.
pub mod Below
pub mod Lines
pub mod Search
pub mod Room
pub mod Noted
