pub mod Operations
pub mod Plain
pub mod History
