pub mod Keys
pub mod Together
pub mod Committed
