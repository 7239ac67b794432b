pub mod Answers
pub mod OneOf
pub mod Steps
pub mod Theorem
