pub mod Service
pub mod Operations
pub mod Theorem
pub mod Numbers
pub mod Steps
pub mod StateSteps
