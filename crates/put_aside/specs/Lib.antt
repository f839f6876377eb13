-- The definitions that the contracts of put_aside, and of what asks about a disc put aside, cite.
pub mod Middle
pub mod Aside
