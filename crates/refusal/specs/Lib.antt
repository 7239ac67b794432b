pub mod Outcome
pub mod Refusal
