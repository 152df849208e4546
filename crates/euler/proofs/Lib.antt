pub mod Spelling
pub mod Lists
pub mod Turns
pub mod Angles
