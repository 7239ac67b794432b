pub mod Answers
pub mod Order
pub mod Small
pub mod Steps
pub mod Theorem
