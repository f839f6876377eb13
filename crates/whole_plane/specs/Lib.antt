-- What the theorems about the plane speak of.
pub mod Plane
pub mod Rings
