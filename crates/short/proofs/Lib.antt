pub mod Closed
pub mod Parts
