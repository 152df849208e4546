pub mod Facts
pub mod Layers
pub mod Passing
pub mod Laws
