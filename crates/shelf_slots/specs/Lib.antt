pub mod Slots
pub mod Steps
