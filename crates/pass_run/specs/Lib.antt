-- The definitions that the contracts of pass_run cite.
pub mod Run
