-- The definitions that the contracts of ring_printer cite.
pub mod Said
pub mod Examples
