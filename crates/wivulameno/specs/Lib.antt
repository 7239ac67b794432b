pub mod Interface
pub mod Answers
pub mod SmallAnswers
