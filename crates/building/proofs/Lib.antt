pub mod Bytes
pub mod Places
pub mod Built
