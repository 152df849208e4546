pub mod Floats
pub mod Tests
pub mod Sine
pub mod ArcTangent
pub mod Laws
