-- The modules that belong to no one function.
pub mod Rounding
pub mod Digits
pub mod Every
pub mod Sized
pub mod Million
pub mod Screened
pub mod Laws
pub mod Worked
