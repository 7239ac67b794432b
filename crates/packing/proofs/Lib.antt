pub mod Agree
pub mod Theorem
pub mod Masked
pub mod Prepared
