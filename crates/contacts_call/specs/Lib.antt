-- The definitions that the contracts of contacts_call, and of the vectors' calls, cite.
pub mod Which
pub mod Calls
