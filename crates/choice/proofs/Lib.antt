pub mod Choosing
pub mod Challenges
pub mod Bounds
