pub mod Bits
pub mod Bytes
pub mod Counting
pub mod Xor
pub mod Steps
