pub mod Conversion
pub mod Rules
pub mod Steps
