pub mod Walks
pub mod Soundness
pub mod Slots
