pub mod Order
pub mod Chain
pub mod Fairness
pub mod Verdicts
pub mod Waiting
pub mod Quota
pub mod Flags
