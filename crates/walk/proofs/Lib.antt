pub mod Turns
pub mod Walking
pub mod Running
