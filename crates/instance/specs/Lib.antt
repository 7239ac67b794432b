pub mod Instance
pub mod Stretch
pub mod Opened
pub mod Steps
