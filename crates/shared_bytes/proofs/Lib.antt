pub mod Operations
pub mod Back
pub mod Fits
pub mod Theorem
