pub mod Stepped
pub mod Paths
