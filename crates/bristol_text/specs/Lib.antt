pub mod Steps
pub mod Text
