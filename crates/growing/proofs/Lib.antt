pub mod Marking
pub mod Writing
pub mod Growing
pub mod Following
pub mod Spreading
