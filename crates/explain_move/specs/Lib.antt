-- The definitions that the contracts of explain_move cite.
pub mod Lines
pub mod Said
