pub mod Search
pub mod Levels
pub mod Covering
pub mod Least
pub mod Rebuilding
pub mod Masters
