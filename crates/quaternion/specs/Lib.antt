pub mod Quaternions
pub mod Euler
pub mod Interpolation
pub mod Axes
pub mod Matrices
pub mod Sums
pub mod EulerLaws
pub mod Drift
