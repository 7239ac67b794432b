pub mod Challenge
pub mod Steps
