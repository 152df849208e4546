pub mod Lengths
pub mod Masks
pub mod Vectors
