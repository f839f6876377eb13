-- The modules of laws.
pub mod Laws
pub mod Lifted
