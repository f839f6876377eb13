-- The definitions that the contracts of clear_move cite.
pub mod Shared
pub mod Owned
pub mod Lines
pub mod Said
