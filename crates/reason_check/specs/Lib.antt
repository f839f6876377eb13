-- The definitions that the contracts of reason_check cite.
pub mod Lent
pub mod Told
