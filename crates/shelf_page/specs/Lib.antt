pub mod Page
pub mod Meaning
pub mod Steps
