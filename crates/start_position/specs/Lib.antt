-- The definitions that the contracts of start_position cite, and what they come to.
pub mod Start
pub mod Extreme
pub mod Calls
