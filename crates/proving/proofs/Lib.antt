pub mod Headers
pub mod Rooms
pub mod Given
pub mod Provings
pub mod Trees
