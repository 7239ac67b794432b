pub mod Run
pub mod Tapes
pub mod Showing
