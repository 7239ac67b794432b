pub mod Openings
pub mod Showings
