pub mod Accepted
pub mod Chained
pub mod Heads
pub mod Lined
pub mod Names
