-- The modules that belong to no one function.
pub mod Numbers
pub mod Isqrt
pub mod Rooted
pub mod Values
pub mod Near
pub mod Patterns
pub mod Join
pub mod Pairs
pub mod Normal
pub mod Compare
pub mod Above
pub mod Order
pub mod Laws
