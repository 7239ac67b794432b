pub mod Answers
pub mod Join
pub mod Steps
pub mod Theorem
