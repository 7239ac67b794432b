pub mod Bitstrings
pub mod Sponge
pub mod Streaming
pub mod Steps
