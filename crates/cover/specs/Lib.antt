pub mod Cover
pub mod Masters
pub mod Steps
