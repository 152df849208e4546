pub mod Fraction
pub mod Quat
pub mod Vector
pub mod Distance
pub mod Sine
pub mod Turn
pub mod Table
pub mod Facts
