pub mod Rows
pub mod Blocks
pub mod Bytes
pub mod Given
