-- The definitions that the programs cite that take a pair.
pub mod Input
