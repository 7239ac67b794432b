pub mod Twice
pub mod Theorem
pub mod Replays
pub mod Showings
pub mod Wrong
