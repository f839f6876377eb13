-- The modules that belong to no one function.
pub mod Coordinate
pub mod Finite
pub mod Every
pub mod First
pub mod Tests
pub mod Calls
pub mod Sized
pub mod Counts
pub mod Faults
pub mod RingRow
pub mod Worked
