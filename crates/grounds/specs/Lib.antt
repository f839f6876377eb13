-- The definitions that the contracts of grounds cite.
pub mod Classes
pub mod Grounds
pub mod Met
pub mod Scan
pub mod Explanation
pub mod Calls
