pub mod Absorbing
pub mod Blocks
pub mod ByteForm
pub mod Bytes
pub mod Lengths
pub mod Squeezing
pub mod Steps
pub mod WholeLanes
