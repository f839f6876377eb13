-- The definitions that the contracts of slide_trace cite.
pub mod Lines
pub mod Said
