-- The definitions that the contracts of contacts, and of what stands on them, cite.
pub mod Touching
pub mod Rows
pub mod Contacts
