-- The definitions that the contracts of centroid cite.
pub mod Centroid
