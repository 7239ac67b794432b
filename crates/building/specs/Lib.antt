pub mod Files
pub mod Steps
