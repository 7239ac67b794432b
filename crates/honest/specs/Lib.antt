pub mod Response
pub mod Verification
pub mod Theorems
pub mod TwoProofs
pub mod Counted
