pub mod Protocol
pub mod File
pub mod Prove
pub mod Check
pub mod Steps
