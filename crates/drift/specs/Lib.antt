pub mod Tests
pub mod Turns
pub mod Columns
pub mod Laws
pub mod EulerLaws
pub mod Drift
