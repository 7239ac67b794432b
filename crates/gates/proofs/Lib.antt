pub mod Steps
pub mod Holding
