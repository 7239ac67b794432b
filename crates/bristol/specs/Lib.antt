pub mod Answers
pub mod Cases
pub mod Operations
pub mod Theorem
