pub mod Matrices
pub mod Angles
pub mod EulerLaws
