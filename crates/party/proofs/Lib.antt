pub mod Commitments
pub mod Clearing
pub mod Derived
pub mod Cleared
