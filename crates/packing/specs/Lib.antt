pub mod Packed
pub mod Agreement
pub mod Corrections
