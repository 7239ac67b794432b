pub mod Fill
pub mod Columns
pub mod Folds
pub mod Gate
pub mod Swaps
pub mod Turns
pub mod Theorem
