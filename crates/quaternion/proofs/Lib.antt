pub mod Accepted
mod Step
mod Drift
