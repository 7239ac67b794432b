pub mod Hashed
pub mod Verified
pub mod Headers
pub mod Checks
pub mod Outcomes
